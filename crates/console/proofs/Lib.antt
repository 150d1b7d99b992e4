pub mod Numerals
pub mod Cutting
pub mod Readings
pub mod Pairs
pub mod Pieces
pub mod Turns
