-- The field of each level.
pub mod Levels
