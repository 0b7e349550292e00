pub mod Values
pub mod Options
pub mod Operands
pub mod Commands
pub mod Reading
pub mod Plain
