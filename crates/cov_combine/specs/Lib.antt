pub mod Aliases
pub mod Combined
pub mod Stored
pub mod Pointwise
