pub mod AddUp
pub mod Laying
pub mod WidenedRows
pub mod Lines
