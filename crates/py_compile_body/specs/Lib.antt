pub mod WaysView
pub mod Parts
