-- What the proofs of several functions use.
mod Outside
mod Eights
