-- General lemmas on lists, tests and counts.
pub mod Truths
pub mod Members
pub mod Listed
pub mod Distinct
pub mod Tests
pub mod Zeros
pub mod Sums
pub mod Counts
pub mod Countings
pub mod Once
pub mod Cuts
pub mod Blocks
pub mod Neighbours
pub mod Chains
