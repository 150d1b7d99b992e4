pub mod Noting
pub mod Recording
