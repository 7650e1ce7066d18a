pub mod Refusals
pub mod Rolls
pub mod Texts
pub mod Trails
