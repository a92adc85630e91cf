-- Laws that the proofs of this crate and of the exported calls cite.
pub mod Words
pub mod Passed
