pub mod Tells
pub mod Laws
pub mod Whole
