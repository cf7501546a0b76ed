pub mod Cycles
pub mod Inner
