-- What a stranger reads of histories: what a turn is, the law, what a history is, and how a run's data are read.
pub mod Turns
pub mod Law
pub mod Histories
pub mod Recorded
pub mod Memory
pub mod Example
