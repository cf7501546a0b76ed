pub mod Numbers
pub mod Table
pub mod Unit
pub mod Calls
pub mod Inner
pub mod Answers
