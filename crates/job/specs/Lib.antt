-- What the contracts of the crates of the vectors say of a job, and of its version.
pub mod Versions
pub mod Jobs
