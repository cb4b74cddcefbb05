pub mod Boxes
pub mod CellEquality
pub mod CellLists
pub mod Children
pub mod Halves
pub mod Numbers
pub mod Parts
pub mod Tests
mod WorkedRows
