pub mod Blocks
pub mod Outlines
pub mod Remade
pub mod Plans
