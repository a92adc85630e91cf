-- What the definitions compute, and what they are not.
pub mod PrimitiveInputs
pub mod Examples
pub mod Refusals
pub mod LeafKinds
pub mod HostExamples
pub mod StandIns
pub mod WorkedExample
pub mod Version1Example
pub mod Misreadings
