pub mod Law
pub mod Touching
pub mod Matching
pub mod Flags
pub mod Forms
pub mod Refusing
mod Rows
