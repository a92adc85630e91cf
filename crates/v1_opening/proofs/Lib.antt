-- Laws that the proofs of this crate cite.
pub mod Siblings
pub mod Parts
