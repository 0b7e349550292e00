pub mod Endings
pub mod Loadings
pub mod Readings
pub mod Tokens
pub mod Trees
