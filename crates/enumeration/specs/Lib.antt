-- What the program that lists all challenges is.
pub mod Enumeration
pub mod Pieces
pub mod ReadBack
