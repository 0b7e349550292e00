-- What the crates that read know of the machine: their tokens by places, and trees that make no
-- difference to which tokens are taken.
pub mod Alike
pub mod AlikeSteps
pub mod Places
