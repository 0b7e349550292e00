-- The least expression that goes on from a place, and the height that is left for it.
pub mod ExprLimits
pub mod Budgets
pub mod ExprStrings
