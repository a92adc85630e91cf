-- What the laws of the tree speak of beside the definitions of spec.
pub mod Lists
