pub mod Accepted
mod Boxes
mod Documents
mod Inside
mod LineParts
mod NameTexts
mod PlainTexts
pub mod Problems
mod Rows
mod ShortTexts
mod TextParts
mod TextRows
mod ValueTexts
