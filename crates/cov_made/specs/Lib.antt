pub mod Views
pub mod Rests
pub mod Sources
pub mod Refusals
pub mod Texts
