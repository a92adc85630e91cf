-- Laws that the proofs of this crate, and of the crates above it, cite.
pub mod Buffers
pub mod Numbers
pub mod LeafNodes
pub mod Entries
pub mod Halves
pub mod Fronts
pub mod InnerJob
