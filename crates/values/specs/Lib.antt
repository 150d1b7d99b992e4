pub mod Rows
pub mod Faults
pub mod Releases
pub mod Texts
pub mod Names
pub mod Keys
pub mod Lines
pub mod Numbering
