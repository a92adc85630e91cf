-- Laws by which a reader recognises the standards.
pub mod Recognition
