-- How a function puts a string.
pub mod Put
pub mod Tests
