pub mod Gathered
pub mod Agreeing
pub mod Functions
pub mod Bindings
mod Walks
mod Nodes
mod Steps
