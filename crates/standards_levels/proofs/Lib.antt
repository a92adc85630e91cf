-- The known answers, and worked examples of the definitions.
pub mod Aes
pub mod Shake256
pub mod Level192Example
pub mod Level256EmExample
