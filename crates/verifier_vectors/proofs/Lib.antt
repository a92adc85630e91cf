-- Laws that the proofs of this crate cite.
pub mod Steps
pub mod HiddenPlaces
