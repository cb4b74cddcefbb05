pub mod Regions
pub mod Joins
pub mod Steeps
pub mod Compared
pub mod TaggedIn
pub mod Flats
pub mod Frames
pub mod Levels
