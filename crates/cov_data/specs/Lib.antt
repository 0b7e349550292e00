pub mod DataSet
pub mod Rows
pub mod Stored
pub mod Numbits
pub mod Laws
