-- Demand 3, and what an opening depends on; then what is claimed of planning.
pub mod Demands
pub mod Stretches
pub mod Planning
-- The calls for a C host and the calls beneath them.
pub mod HostCalls
-- demand 3 of version 1
pub mod Version1Demands
