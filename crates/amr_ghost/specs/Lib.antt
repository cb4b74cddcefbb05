pub mod Fills
pub mod Frames
pub mod GhostCells
pub mod Messages
pub mod Outer
pub mod Parts
pub mod Plans
pub mod Strips
