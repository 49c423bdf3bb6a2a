-- What the proofs of several functions use.
pub mod Sorts
pub mod Searches
pub mod Scopes
pub mod Signs
pub mod Fits
pub mod Spots
