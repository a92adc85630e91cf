-- What the definitions compute, and laws of records.
pub mod Examples
pub mod Numbers
pub mod Fields
pub mod Bounds
pub mod SameBytes
pub mod Reading
pub mod ReadBack
pub mod Cut
pub mod Reconstructing
pub mod Host
