mod Scales
mod Sequences
mod Choosing
mod WordPieces
mod NumberPieces
mod Lines
