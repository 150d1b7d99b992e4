pub mod Bounds
pub mod Cover
