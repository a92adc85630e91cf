-- Laws of this crate alone, which belong to no one function.
pub mod Rotation
