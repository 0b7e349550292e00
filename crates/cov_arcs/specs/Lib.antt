pub mod Told
pub mod Tracing
pub mod Laws
