pub mod Sources
pub mod Quiet
pub mod Positive
pub mod Meaning
pub mod Verdicts
pub mod SuiteLines
pub mod Ran
pub mod Steps
