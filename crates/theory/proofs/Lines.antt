-- Lines, and what the visits of a level and of a raise count.
pub mod Lines
pub mod LineWeights
pub mod CountedLines
pub mod LineTests
pub mod Finished
pub mod Supports
pub mod VisitWords
pub mod Bests
pub mod Meetings
pub mod Counting
pub mod Answers
pub mod Raises
