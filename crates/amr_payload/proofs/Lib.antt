pub mod Readings
pub mod Numbers
pub mod Fields
pub mod Grids
pub mod Places
pub mod GridLevels
pub mod ReadStates
pub mod Counting
pub mod WriteLevels
pub mod WriteStates
pub mod Room
pub mod Bytes
mod WorkedRows
mod LevelRows
