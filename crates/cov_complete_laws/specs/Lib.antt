pub mod Premises
pub mod Ready
pub mod Complete
pub mod Scripts
