pub mod Cycles
pub mod KeptLevels
pub mod Steps
