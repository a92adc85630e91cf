-- What is listed of a shape, the claims about that list, and its texts.
pub mod Listed
pub mod Order
pub mod Text
