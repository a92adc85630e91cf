-- The versions of a record by their bytes.
pub mod Versions
