-- What the contracts of this crate cite beside the definitions of crates/spec.
pub mod Corrections
