pub mod Indexes
pub mod Counting
pub mod LineSets
pub mod Places
pub mod Stepping
pub mod Keeping
pub mod Moving
pub mod Gathering
pub mod Telling
pub mod Unasked
mod Worked
pub mod Having
pub mod Summing
