pub mod Least
pub mod Exact
pub mod View
