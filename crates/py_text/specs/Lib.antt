pub mod Comparison
pub mod Hashes
pub mod Parts
pub mod Texts
