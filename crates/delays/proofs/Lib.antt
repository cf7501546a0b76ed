mod RemainderLaws
pub mod PlaceLaws
mod MovedLaws
mod RuleLaws
pub mod Claims
mod WordLaws
mod MoveLaws
mod EndLaws
pub mod Examples
