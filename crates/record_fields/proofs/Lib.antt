-- What every version of a record has.
pub mod Versions
