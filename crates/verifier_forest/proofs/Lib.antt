-- Laws that the proofs of this crate cite.
pub mod Pair
pub mod Walk
pub mod ByVector
pub mod Laid
