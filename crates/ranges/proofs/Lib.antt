pub mod Steps
pub mod Parting
pub mod Gaps
