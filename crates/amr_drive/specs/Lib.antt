pub mod Regrids
pub mod States
pub mod Drives
pub mod Flocks
pub mod Lanes
