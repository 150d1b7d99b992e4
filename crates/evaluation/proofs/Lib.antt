pub mod Finding
pub mod Walking
pub mod Negating
pub mod Saying
pub mod Asking
pub mod Possibly
