pub mod TellLaws
pub mod Examples
