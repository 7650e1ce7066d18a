-- The order in which a level goes through choices and coefficients.
pub mod Nonzeros
pub mod Coefficients
pub mod Rising
pub mod Choices
pub mod Exactly
pub mod Visits
pub mod Ends
pub mod Doors
pub mod Steps
pub mod Scan
pub mod Exchange
pub mod Cursor
