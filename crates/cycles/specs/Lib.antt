pub mod Greedy
pub mod Rotation
pub mod Inner
