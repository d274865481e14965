-- The definitions that the contracts cite.
pub mod Faults
pub mod Requesting
pub mod Stations
pub mod Segments
pub mod Answers
pub mod Winning
pub mod Own
pub mod Words
