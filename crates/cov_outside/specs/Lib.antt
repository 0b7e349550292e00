pub mod Counts
pub mod Prefixes
pub mod Files
pub mod Reads
pub mod Pairs
pub mod Calls
pub mod Memory
pub mod Real
