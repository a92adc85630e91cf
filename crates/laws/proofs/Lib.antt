-- The laws, by what they speak of.
pub mod Xor
pub mod Sums
pub mod Tables
pub mod Tests
pub mod Lists
pub mod Front
pub mod Concat
pub mod Segments
pub mod Numbers
pub mod Polynomials
pub mod FieldProduct
pub mod Limbs
pub mod Prefixes
pub mod Strings
pub mod Filling
pub mod Division
pub mod Putting
pub mod Lengths
pub mod Digits
pub mod Running
pub mod Parts
pub mod Conjunctions
pub mod Refusals
pub mod Calls
pub mod Words
-- numbers written with the highest byte first
pub mod BigEndian
