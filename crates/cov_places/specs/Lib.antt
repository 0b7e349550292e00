pub mod Bounds
pub mod Counting
pub mod ItemRows
pub mod PlaceView
