pub mod Answers
pub mod Parts
pub mod Printing
pub mod Sheet
