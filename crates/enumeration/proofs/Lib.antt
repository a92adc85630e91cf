-- Laws that the proofs of this crate cite; Whole.antt and ReadBack.antt prove the claims of ../specs, Examples.antt has computed examples.
pub mod Readings
pub mod Counts
pub mod Whole
pub mod ReadBack
pub mod Examples
