-- Laws that the proofs of this crate cite.
pub mod Numbers
pub mod Challenge
pub mod Lines
