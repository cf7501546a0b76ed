pub mod StepLaws
pub mod BankLaws
pub mod TickLaws
pub mod Demand2
pub mod Examples
