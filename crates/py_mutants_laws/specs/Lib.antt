pub mod Mutants
pub mod Unreached
pub mod Sound
