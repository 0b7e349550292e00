pub mod Code
pub mod Trials
pub mod Meant
