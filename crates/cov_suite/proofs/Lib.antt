pub mod Walks
pub mod Adding
pub mod Turns
pub mod TestNames
pub mod Recording
pub mod Calling
pub mod Ending
pub mod Meaning
pub mod DataLines
pub mod MergedLines
pub mod UnionLines
pub mod Passes
mod Worked
