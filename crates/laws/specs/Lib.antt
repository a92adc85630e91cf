-- What contracts of several crates speak of.
pub mod Front
pub mod Lengths
