-- What a line says.
pub mod Line
