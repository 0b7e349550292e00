pub mod Chosen
pub mod Verdicts
pub mod Regular
