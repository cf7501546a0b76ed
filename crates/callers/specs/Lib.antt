pub mod Turn
pub mod Queues
pub mod Calls
pub mod Parts
pub mod Inner
pub mod Served
