pub mod Tells
pub mod Parts
pub mod Answers
pub mod Lands
pub mod Small
