-- The contract of the exported call that gives the lengths of a shape's buffers.
pub mod LengthCalls
