-- The laws, by what they speak of.
pub mod Members
pub mod Ancestors
pub mod Covered
pub mod Count
pub mod Passing
pub mod Rising
pub mod Revealed
pub mod Bits
pub mod Depths
pub mod LeafKindFacts
pub mod ShapeFacts
pub mod HiddenLeaves
pub mod ExpandTree
pub mod ShapeLaws
pub mod Forest
pub mod Path
pub mod TreeAgain
