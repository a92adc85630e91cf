-- What the contracts of this crate cite beyond FIPS 197 as crate spec restates it.
pub mod RoundKeys
pub mod Scheduled
