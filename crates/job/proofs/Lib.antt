-- What the definitions by version are for each of the two.
pub mod Each
