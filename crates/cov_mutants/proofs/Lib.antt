pub mod MarkLaws
pub mod Made
pub mod KindLaws
pub mod Reaching
