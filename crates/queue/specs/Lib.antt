pub mod Line
pub mod Calls
pub mod Inner
pub mod Passed
