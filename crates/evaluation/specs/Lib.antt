pub mod Substrings
pub mod Walks
pub mod Steps
pub mod Evaluation
pub mod Extras
