pub mod Table
pub mod Rows
pub mod Numbers
pub mod Program
pub mod Words
pub mod Laws
