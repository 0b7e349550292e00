pub mod Checks
pub mod Orders
pub mod Causes
pub mod Lines
pub mod Exactly
pub mod Laws
pub mod Rows
