pub mod Silence
pub mod Compared
pub mod Local
pub mod Views
