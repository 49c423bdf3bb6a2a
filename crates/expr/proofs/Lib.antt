pub mod Values
pub mod Chain
pub mod Find
pub mod Asked
pub mod Walk
pub mod Loops
