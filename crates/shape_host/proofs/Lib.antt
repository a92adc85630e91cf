-- Laws that the proofs of this crate cite.
pub mod Lent
pub mod Decode
pub mod Plan
pub mod Lengths
