-- Laws of a front.
pub mod Fronts
