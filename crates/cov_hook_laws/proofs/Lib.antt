pub mod Names
pub mod Law
pub mod Rows
