pub mod Pairs
pub mod Tagged
