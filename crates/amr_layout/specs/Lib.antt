pub mod Surroundings
pub mod Grounds
pub mod Places
pub mod Adds
pub mod LevelFlowLists
pub mod Posts
pub mod Arounds
pub mod PartFlows
