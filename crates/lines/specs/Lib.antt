pub mod FirstSymbols
pub mod LineWeights
