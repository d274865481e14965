-- The laws that the proofs share, and that other crates may cite.
pub mod Places
pub mod Missing
pub mod Pulling
pub mod Empties
pub mod Buffers
