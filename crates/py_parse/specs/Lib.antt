pub mod Least
pub mod Places
pub mod Refusal
pub mod Progress
