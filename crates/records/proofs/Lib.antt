pub mod Cut
pub mod TrailSteps
pub mod Trips
