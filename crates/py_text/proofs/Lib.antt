pub mod TextKeys
pub mod Lists
pub mod Mixing
pub mod Parts
pub mod SameTexts
pub mod TestLaws
pub mod TextLaws
pub mod Walks
