pub mod Forms
pub mod Settings
pub mod Plain
pub mod Sections
pub mod Rows
pub mod Omits
