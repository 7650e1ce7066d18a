-- The proofs, each part resting on those before it.
pub mod Equations
pub mod Lists
pub mod Order
pub mod Algebra
pub mod Lines
pub mod Promise
pub mod Whole
pub mod Witness
pub mod Figures
