pub mod Scope
pub mod Names
pub mod Steps
pub mod Values
pub mod Runs
pub mod Made
