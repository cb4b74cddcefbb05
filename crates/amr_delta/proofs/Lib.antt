mod Records
mod Sizes
