pub mod Endings
pub mod Outcomes
pub mod Ends
pub mod Told
pub mod Runs
pub mod Fitting
