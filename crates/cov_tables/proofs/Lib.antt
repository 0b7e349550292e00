pub mod InPlace
pub mod InOrder
pub mod Columns
pub mod Counting
pub mod Whole
pub mod Permuted
pub mod Worked
