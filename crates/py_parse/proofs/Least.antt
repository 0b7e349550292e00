-- The least module of a state: no step makes it less, and some tokens finish it.
pub mod GrowthParts
pub mod GrowthForms
pub mod Growth
pub mod GrowthSteps
pub mod GrowthEnding
pub mod Finish
pub mod FinishSuites
pub mod FinishParts
pub mod Finishes
pub mod RelinedSizes
pub mod ExprLeavesWithin
pub mod PatternLeavesWithin
pub mod Weights
pub mod FormsGrowWithin
pub mod StepGrowsWithin
