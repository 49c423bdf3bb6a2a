-- What the proofs of several functions use.
pub mod Trees
pub mod Lists
pub mod Runs
pub mod Bodies
pub mod Functions
pub mod Fronts
