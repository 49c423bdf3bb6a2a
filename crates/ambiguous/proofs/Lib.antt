-- What the proofs of the functions use.
mod Trees
mod Walk
mod Clashes
mod Agreed
