-- Laws that the proofs of this crate and of `open` cite.
pub mod Slots
