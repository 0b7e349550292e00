pub mod Lists
pub mod Joining
pub mod Taking
pub mod Missing
pub mod Telling
pub mod Going
pub mod Recorded
pub mod Running
pub mod Testing
pub mod Retesting
pub mod Reporting
pub mod Combining
pub mod Losing
pub mod Kept
pub mod Lines
pub mod Heading
pub mod Came
mod Rows
