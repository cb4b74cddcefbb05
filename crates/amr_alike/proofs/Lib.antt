pub mod SameBoxes
pub mod Copying
