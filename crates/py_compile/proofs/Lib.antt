mod Sizes
mod Numbering
mod Ranges
mod DefinitionLaw
mod Standing
mod Flow
mod TargetRuns
mod Forms
mod SimpleRuns
mod BranchRuns
mod WaysOut
mod TryRuns
mod ImportRuns
mod StatementLaw
mod CallRuns
mod SlotNames
pub mod ProgramLaw
mod PatternNames
mod PatternOperands
mod PatternRuns
mod MatchRuns
pub mod Agreement
mod RunRows
mod ExceptionRows
mod LoopRows
