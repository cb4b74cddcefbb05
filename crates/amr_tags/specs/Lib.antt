pub mod Bits
pub mod Coarse
pub mod Edges
pub mod Grown
pub mod Parts
pub mod Stored
pub mod TagSets
