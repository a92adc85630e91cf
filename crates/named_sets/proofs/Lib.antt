-- What the table computes, what the numbers of fronts are, and laws of the numbers.
pub mod Table
pub mod Examples
pub mod Numbers
