-- Laws that the proofs of this crate and of report cite; Claims.antt proves the claims of ../specs/Claims.antt, Examples.antt has computed examples.
pub mod Entries
pub mod Claims
pub mod Examples
