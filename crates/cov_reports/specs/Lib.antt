pub mod Objects
pub mod Reports
pub mod Views
