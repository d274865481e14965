-- The laws that the proofs share, and that other crates may cite.
pub mod Bits
pub mod Sets
mod FrameWords
pub mod Asserting
pub mod Pulling
mod Examples
mod HexDigits
