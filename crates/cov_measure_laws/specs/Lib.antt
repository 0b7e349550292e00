pub mod Places
pub mod Foreseen
pub mod Whole
pub mod Units
pub mod Meant
pub mod RunLines
pub mod Totals
pub mod Leaving
