pub mod Functions
pub mod States
pub mod Questions
pub mod View
