pub mod Steps
pub mod Entry
pub mod Front
pub mod Unique
