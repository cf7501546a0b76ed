pub mod EveryList
pub mod PlanLaws
pub mod BestLaws
pub mod SearchLaws
pub mod ReadLaws
mod Examples
