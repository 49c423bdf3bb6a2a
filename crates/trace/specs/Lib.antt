pub mod Moves
pub mod Turns
pub mod Parts
pub mod Lists
