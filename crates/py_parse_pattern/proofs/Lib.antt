pub mod Sound
pub mod Complete
pub mod Least
pub mod Exact
pub mod View
