pub mod Rows
pub mod Search
pub mod SearchView
