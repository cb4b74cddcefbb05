mod ClusterRows
pub mod Examples
mod FiveLevelRows
mod LevelRows
mod PayloadLevelRows
mod PayloadRows
mod RegisterRows
mod RegridRows
mod RunRows
mod SpeciesRows
mod StepRows
mod SubcycleRows
mod SubstepRows
mod SummaryRows
