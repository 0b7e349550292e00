pub mod Views
pub mod Rests
