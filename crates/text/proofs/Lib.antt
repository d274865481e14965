mod Appending
mod Comparing
mod Counting
mod Reading
mod Splitting
pub mod Printing
