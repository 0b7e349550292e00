pub mod Parts
pub mod Matches
pub mod RuleMaps
pub mod Unions
pub mod Laws
pub mod Pointwise
