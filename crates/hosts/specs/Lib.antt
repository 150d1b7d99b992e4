pub mod Hosts
pub mod Records
pub mod Tallies
pub mod Reporters
