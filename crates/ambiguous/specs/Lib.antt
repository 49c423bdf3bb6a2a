pub mod Spots
pub mod Slots
