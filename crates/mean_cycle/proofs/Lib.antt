-- The laws behind the search, which belong to no one function.
pub mod Links
pub mod Sums
pub mod Frames
pub mod Targets
pub mod Closing
pub mod Relinks
pub mod Turns
pub mod Steps
pub mod Rounds
pub mod FirstCycle
pub mod Bounds
pub mod Cycles
pub mod Tables
pub mod AnswerLaws
