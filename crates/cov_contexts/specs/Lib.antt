pub mod Names
pub mod Boxes
pub mod Plugins
pub mod Sources
pub mod Asking
pub mod Prefixes
