pub mod Seats
pub mod Loans
pub mod Lists
pub mod Orders
