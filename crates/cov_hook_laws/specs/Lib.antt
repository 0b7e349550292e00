pub mod MeantHooks
pub mod Laws
