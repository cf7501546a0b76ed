pub mod Graph
pub mod States
pub mod Rotation
