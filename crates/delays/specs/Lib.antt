pub mod Delays
pub mod Claims
pub mod Inner
