pub mod Readings
pub mod Lists
pub mod Rows
pub mod BoxTests
pub mod MassReadings
pub mod TestedMasses
pub mod GridReadings
pub mod Filling
pub mod GridBoxes
pub mod LevelReadings
pub mod Stacked
pub mod FinerLevels
pub mod MassSums
pub mod States
pub mod Fours
pub mod ParentSets
mod ChangedRows
mod Ledgers
