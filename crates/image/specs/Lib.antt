pub mod Leaves
pub mod Names
pub mod Rows
pub mod Within
