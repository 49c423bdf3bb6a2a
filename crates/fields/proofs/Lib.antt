-- What the proofs of the functions use.
mod Kept
mod Positions
