pub mod ArcSets
pub mod Leading
pub mod Walk
pub mod Leaving
pub mod Parts
pub mod Steps
pub mod Defs
