pub mod Notes
pub mod Clear
pub mod Left
pub mod Wrote
