pub mod Missing
pub mod Report
pub mod Stored
