pub mod Bank
pub mod History
