pub mod FirstSymbols
pub mod Leaders
pub mod Multiples
