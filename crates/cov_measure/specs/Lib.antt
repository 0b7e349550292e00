pub mod Requests
pub mod Measuring
pub mod Told
pub mod Measures
