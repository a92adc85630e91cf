-- The nodes that an answer comes with.
pub mod Nodes
