pub mod Refusal
pub mod ExprReads
pub mod ExprViews
pub mod ExprStacks
pub mod ExprTurns
pub mod ExprFields
