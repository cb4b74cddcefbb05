pub mod Columns
pub mod NewMasses
pub mod Paces
pub mod Rooms
pub mod Rows
pub mod Tables
pub mod PatchSides
