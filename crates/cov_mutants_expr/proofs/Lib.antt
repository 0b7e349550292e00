pub mod Copies
pub mod FormLaws
pub mod RowLaws
pub mod Turns
