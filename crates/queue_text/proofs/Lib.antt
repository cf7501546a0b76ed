pub mod FlatLaws
pub mod TellLaws
pub mod Examples
