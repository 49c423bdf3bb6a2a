pub mod Entries
pub mod Rows
pub mod Endings
pub mod Unique
pub mod Whole
pub mod Walks
