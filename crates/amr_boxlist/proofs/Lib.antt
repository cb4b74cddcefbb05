pub mod Sets
pub mod Frame
pub mod PatchBoxes
pub mod SharedCells
pub mod Corners
