-- Laws that the proofs of this crate cite, and those of the crates above.
pub mod Sorting
pub mod RingWalk
pub mod Planned
