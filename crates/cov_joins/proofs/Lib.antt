pub mod Finding
pub mod Leaving
pub mod Marking
pub mod Opening
