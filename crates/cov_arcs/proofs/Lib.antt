pub mod Ordered
pub mod Following
pub mod Everywhere
pub mod Runs
pub mod Places
pub mod Adding
pub mod Tracing
pub mod Rows
