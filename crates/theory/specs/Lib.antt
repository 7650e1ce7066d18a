-- The definitions, each file resting on those before it.
pub mod Meanings
pub mod Usual
pub mod Codes
pub mod Forms
pub mod Visits
pub mod Standings
pub mod Promises
pub mod Facts
pub mod Calls
pub mod Steps
pub mod Theorems
pub mod Worked
