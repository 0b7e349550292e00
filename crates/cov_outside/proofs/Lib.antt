mod Parts
mod Placed
pub mod PrefixLemmas
