pub mod Tables
pub mod Ids
pub mod Kinds
pub mod Admission
pub mod Rules
pub mod Views
pub mod Held
