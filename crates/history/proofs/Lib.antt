-- The law of the alert line, proved from what each turn does.
mod Endings
pub mod Places
pub mod Steps
mod Waiting
mod Raisings
mod BlackBoxes
pub mod Law
pub mod Lengths
pub mod Taking
mod Mistakes
pub mod Extending
mod Moves
mod Lowest
mod Touching
mod Samples
mod Transfers
mod AlertReads
pub mod Following
mod ExampleTurns
