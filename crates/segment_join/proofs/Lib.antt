-- What the proofs share.
mod Clashing
mod Sides
