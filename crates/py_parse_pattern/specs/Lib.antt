pub mod Machine
pub mod Trees
pub mod Heights
pub mod Views
pub mod Rows
pub mod Reads
