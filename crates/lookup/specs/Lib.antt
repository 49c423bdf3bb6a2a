pub mod Answers
pub mod Scope
pub mod Places
pub mod Results
pub mod Fields
