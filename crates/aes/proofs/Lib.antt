-- Laws of AES as the code computes it.
pub mod Rounds
