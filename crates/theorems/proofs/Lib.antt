-- The proofs of the statements in ../specs, and the laws that they cite.
pub mod Columns
pub mod Buffers
pub mod Reconstruction
pub mod ColumnRule
pub mod Stretches
pub mod Demand3
pub mod PlanningExamples
pub mod Fewest
pub mod OneIndex
pub mod HostCalls
pub mod Version1Opening
pub mod Version1Trees
pub mod Version1Leaves
pub mod Version1
