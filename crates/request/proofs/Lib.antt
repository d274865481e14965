-- The laws that the proofs share, and that other crates may cite, and worked examples.
pub mod Examples
pub mod Reasons
