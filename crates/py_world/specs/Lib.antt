pub mod Globals
pub mod KnownNames
pub mod Links
pub mod Numbered
pub mod Stores
pub mod Values
