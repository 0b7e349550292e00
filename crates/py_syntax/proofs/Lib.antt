pub mod Sources
mod WorkedRows
mod SuiteRows
mod LoopRows
mod TryRows
mod MatchRows
