pub mod Pens
pub mod Sheets
pub mod Texts
pub mod Rows
pub mod Layers
pub mod BoxParts
pub mod Laws
