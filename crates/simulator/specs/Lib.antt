pub mod Step
pub mod Play
pub mod Claims
pub mod Inner
