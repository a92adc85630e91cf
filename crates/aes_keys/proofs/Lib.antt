-- Laws of the key schedule as the code computes it.
pub mod KeyExpansion
pub mod Schedules
