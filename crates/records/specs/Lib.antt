pub mod Names
pub mod Small
pub mod Keys
pub mod Places
pub mod Cells
pub mod Records
