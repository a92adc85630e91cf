-- Laws of the sponge, which belong to no one function.
pub mod XorIn
pub mod Absorbing
pub mod Squeezing
