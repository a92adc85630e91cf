-- Laws that the proofs of this crate cite.
pub mod NotEmpty
pub mod Commit
pub mod Open
