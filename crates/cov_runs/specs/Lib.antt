pub mod Crossed
pub mod Hooks
pub mod Measured
pub mod Rests
