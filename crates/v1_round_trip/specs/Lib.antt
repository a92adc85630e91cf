-- What the contract of this crate cites beside the definitions of crates/spec.
pub mod RoundTrip
