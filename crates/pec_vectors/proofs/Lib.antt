-- The laws that the proofs share.
pub mod Spelling
