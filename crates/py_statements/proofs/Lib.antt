mod HeaderRows
pub mod View
