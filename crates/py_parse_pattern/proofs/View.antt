-- What the code holds and does is what the machine says.
pub mod Built
pub mod Turning
pub mod Heights
pub mod Tokens
