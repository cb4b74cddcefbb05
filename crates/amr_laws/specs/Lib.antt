pub mod GridSize
pub mod Levels
pub mod Substeps
pub mod Sides
pub mod Laws
pub mod Species
