-- What the code asks is what the machine says.
pub mod Turning
pub mod Answering
