mod Exchanging
pub mod HandedBack
mod Members
mod Noting
mod Order
mod Sharing
pub mod Totals
mod Trading
