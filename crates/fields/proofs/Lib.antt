pub mod WeightLists
pub mod Symbols
