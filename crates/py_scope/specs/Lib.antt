pub mod Patterns
pub mod PatternFacts
pub mod Occurrences
pub mod Scopes
pub mod Faults
pub mod Parts
pub mod Seen
pub mod Answer
