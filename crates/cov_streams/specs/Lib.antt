pub mod Objects
pub mod Runs
pub mod Trials
pub mod Suites
pub mod Retests
