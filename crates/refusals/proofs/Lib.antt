-- Laws of lists of tests, and of the numbers of the calls.
pub mod Lists
pub mod Numbers
pub mod Outcomes
