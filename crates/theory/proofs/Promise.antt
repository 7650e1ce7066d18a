-- The promise: the bound, the spectrum, the best, the roll, and every run.
pub mod Bounds
pub mod Spectra
pub mod CountedLeaders
pub mod Distances
pub mod Determined
pub mod Rolls
pub mod FullRolls
pub mod Booking
pub mod Valid
pub mod Visiting
pub mod Starts
pub mod Raising
pub mod Runs
pub mod History
