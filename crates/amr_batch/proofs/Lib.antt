mod Answering
mod Fronts
mod JobsRead
mod LotTasks
pub mod OneReading
mod Placing
