pub mod Handing
pub mod Looping
pub mod Patterning
pub mod Slashes
pub mod Told
