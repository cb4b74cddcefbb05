pub mod CellRows
pub mod Loops
pub mod Near
pub mod Filled
pub mod BlockPlaces
pub mod Marks
pub mod Regridded
mod SameLists
