-- The shape inside version 1's calls.
pub mod Inner
