pub mod Sets
pub mod DataLines
pub mod Paths
pub mod Places
pub mod Unselected
pub mod Unmarked
pub mod Chosen
