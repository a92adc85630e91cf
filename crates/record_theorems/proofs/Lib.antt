-- What the calls on records give together.
pub mod Claims
