pub mod PositionLaws
pub mod StepLaws
pub mod PlayLaws
pub mod Claims
pub mod Examples
