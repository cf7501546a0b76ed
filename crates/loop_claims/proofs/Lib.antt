pub mod EventLaws
pub mod ClaimLaws
pub mod Examples
pub mod Diagrams
