pub mod Runs
mod HandedRuns
pub mod InPlaces
pub mod LotTotals
pub mod InTurn
mod Adding
mod Filled
mod Flat
mod Posting
mod Where
mod Showing
mod Begun
mod Swept
mod Sending
mod SteppedBoxes
mod Places
mod LotParts
mod Borders
mod ByBorder
pub mod Finishing
pub mod Completing
mod Reading
mod SweptWork
mod DutyLaws
mod Posts
mod Looking
mod CorrectedPatches
pub mod SweptPatch
mod Trading
mod Messages
