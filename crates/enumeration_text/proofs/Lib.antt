-- Laws that the proofs of this crate and of enumeration cite; Order.antt proves the claims of ../specs/Order.antt.
pub mod Order
pub mod Sums
pub mod Lines
