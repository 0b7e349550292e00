pub mod Everywhere
pub mod Fits
pub mod Making
pub mod Suits
pub mod Frames
pub mod Laws
