pub mod Annotated
pub mod Lcov
pub mod Views
