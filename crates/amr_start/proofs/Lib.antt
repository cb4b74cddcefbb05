pub mod Filling
pub mod Bases
pub mod Placing
pub mod Chops
