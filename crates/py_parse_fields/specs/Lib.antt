pub mod Frames
pub mod Reader
pub mod Order
