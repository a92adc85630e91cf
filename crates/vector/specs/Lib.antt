-- What the contracts of this crate, and of both halves above it, cite beside the definitions of crates/spec.
pub mod Entries
pub mod Vectors
