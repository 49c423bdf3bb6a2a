pub mod Old
pub mod Fields
pub mod Meant
pub mod Same
pub mod Kept
pub mod Loads
