-- What version 1's calls give inside is what its definitions say; and the numbers of its calls.
pub mod Inner
pub mod Numbers
