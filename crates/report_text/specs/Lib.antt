-- What the opening report says of the records of a string, the texts, and the claims about both.
pub mod Entries
pub mod Text
pub mod Claims
