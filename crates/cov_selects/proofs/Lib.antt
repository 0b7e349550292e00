pub mod Selected
pub mod Writing
