pub mod Words
pub mod Layouts
pub mod Laws
pub mod Subcycle
pub mod Borders
pub mod Edges
