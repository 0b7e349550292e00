mod Beginnings
mod Hooking
pub mod KindNames
pub mod Lifting
mod Lines
mod MeasureCalls
mod Opened
pub mod PossibleSets
mod WordsAsked
