pub mod Turning
pub mod Checks
pub mod Judge
pub mod Lawful
pub mod Viewing
