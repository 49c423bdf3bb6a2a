pub mod Frame
pub mod Runs
