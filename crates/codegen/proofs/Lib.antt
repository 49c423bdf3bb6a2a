pub mod Pieces
pub mod Params
pub mod Part
pub mod Mains
pub mod Firsts
pub mod Whole
