mod BoxTexts
mod Cutting
mod Fragments
mod Layers
pub mod Lengths
mod Meshes
pub mod Pens
mod PlotTexts
pub mod Putting
pub mod SheetTexts
mod TextLaws
pub mod Words
