-- The law that the struct's schedule is that of its key.
pub mod Schedules
