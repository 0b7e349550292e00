pub mod Items
pub mod Forms
pub mod KindForms
pub mod Counts
pub mod KindCounts
