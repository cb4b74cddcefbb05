pub mod Faces
pub mod Numbers
pub mod Shares
