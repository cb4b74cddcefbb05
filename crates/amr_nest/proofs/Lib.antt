pub mod Gathered
pub mod Turns
pub mod Reaches
pub mod Projected
pub mod Sizes
pub mod Added
