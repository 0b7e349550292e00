pub mod Moving
pub mod InTurn
