pub mod Lines
pub mod OwnLines
