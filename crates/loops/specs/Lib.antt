pub mod Loop
pub mod Steps
pub mod Best
pub mod Answers
pub mod Inner
