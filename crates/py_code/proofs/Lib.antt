pub mod Steps
pub mod Standing
mod Forms
mod Instructions
pub mod Never
pub mod Codes
pub mod Ahead
pub mod Rows
mod SlotLaws
pub mod OneMachine
