-- The texts, and how a function puts one.
pub mod Text
pub mod Put
