-- The parts that the numbers of the calls are made of, and the lengths that they compare.
pub mod Numbers
pub mod Sizes
pub mod Refusal
