pub mod Document
pub mod Keys
pub mod Values
pub mod Fields
pub mod Faults
pub mod Entries
pub mod Judgement
pub mod Laws
