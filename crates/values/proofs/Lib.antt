pub mod Firsts
pub mod Written
pub mod Making
pub mod Naming
