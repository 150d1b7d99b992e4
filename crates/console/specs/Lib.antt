pub mod Cuts
pub mod Spelling
pub mod Words
pub mod Reading
pub mod Making
pub mod Nodes
pub mod Rows
pub mod Entering
