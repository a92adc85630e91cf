-- What the listing program is.
pub mod Listing
