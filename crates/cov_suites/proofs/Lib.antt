pub mod Asked
pub mod Beside
pub mod TestCalls
pub mod Writing
