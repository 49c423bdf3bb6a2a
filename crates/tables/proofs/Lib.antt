-- What the proofs of the functions use.
mod Search
mod Fill
