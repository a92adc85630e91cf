-- What the structs of this crate say of a record.
pub mod Front
