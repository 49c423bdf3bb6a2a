-- What the proofs of several functions use.
mod Dues
mod Every
mod Header
mod Loop
mod Names
mod Reach
mod Steps
mod Swar
mod Table
mod Turns
mod Whole
