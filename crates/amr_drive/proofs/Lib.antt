pub mod StartLaws
pub mod Kept
mod Regridded
mod NextStates
pub mod Finishes
mod TeamSends
mod SpeciesParts
mod StepsTo
mod LaneLists
mod DueRegrids
mod GoneOn
mod LaneChanges
mod OnlyMesh
mod Written
mod Lent
mod LaneShares
mod LaneSends
mod FlockStarts
