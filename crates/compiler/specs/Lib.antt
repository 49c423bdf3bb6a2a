pub mod Made
pub mod Stages
pub mod Ends
pub mod Unique
pub mod Whole
pub mod Walks
