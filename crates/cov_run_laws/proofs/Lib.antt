pub mod Readings
pub mod Law
pub mod Proper
