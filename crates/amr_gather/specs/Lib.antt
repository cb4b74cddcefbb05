pub mod Totals
pub mod Held
