pub mod CycleLaws
pub mod RingLaws
mod TurnLaws
pub mod ListLaws
pub mod RecordLaws
mod TestLaws
pub mod ReadLaws
pub mod PlanLaws
pub mod Claims
mod Examples
