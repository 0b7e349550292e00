pub mod CellTurns
pub mod Errs
pub mod FunctionTurns
pub mod Headings
pub mod NoDefs
pub mod Numbers
pub mod OwnNames
pub mod Variables
