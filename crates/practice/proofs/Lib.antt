pub mod Judgements
pub mod Shown
pub mod Serving
