pub mod LoadedTests
pub mod Writing
