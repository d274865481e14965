pub mod Expected
pub mod Pieces
pub mod Names
pub mod Numbers
pub mod Forms
pub mod Fitting
