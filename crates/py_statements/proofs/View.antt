-- What the code holds and does is what the machine says.
pub mod OneMore
pub mod StmtKinds
pub mod HeaderPlaces
pub mod TargetItems
pub mod HeaderNames
pub mod Acts
pub mod Stepping
pub mod Tails
pub mod Wanted
