pub mod Words
pub mod Compared
pub mod PartsOfRows
pub mod Pairs
pub mod SilenceLaws
pub mod Loops
pub mod Local
pub mod Together
