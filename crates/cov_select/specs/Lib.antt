pub mod Selected
pub mod Paths
pub mod Unselected
pub mod Chosen
