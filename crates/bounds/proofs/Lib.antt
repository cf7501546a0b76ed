mod OnesLaws
pub mod UpperLaws
pub mod BoundsLaws
pub mod EveryPlan
mod Examples
