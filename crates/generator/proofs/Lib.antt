-- Laws of the generator's blocks: their bytes in the output, for callers too, and how they are stored.
pub mod Blocks
pub mod Storing
pub mod Carrying
