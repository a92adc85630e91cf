-- What the contracts of this crate cite beyond section 3.3 as crate spec restates it.
pub mod Stored
