pub mod Registers
pub mod Cycling
pub mod Corrections
pub mod StateSteps
pub mod Coarsenable
pub mod Whole
pub mod Chopped
pub mod KeptLaws
mod ReadyLevels
