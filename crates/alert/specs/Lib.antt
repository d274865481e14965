-- The definitions that the contracts cite.
pub mod Bits
pub mod Conditions
pub mod Printing
pub mod Alerts
pub mod Frames
pub mod Boxes
pub mod Entries
