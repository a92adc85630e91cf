-- What the contracts of this crate cite of the struct.
pub mod Scheduled
