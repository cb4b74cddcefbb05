pub mod Rounds
pub mod Letters
pub mod Amounts
