pub mod Offers
pub mod TokenClasses
pub mod Runs
pub mod Order
