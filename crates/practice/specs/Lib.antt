-- The definitions that the contracts cite.
pub mod Practice
pub mod Commands
