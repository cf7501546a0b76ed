pub mod Tests
pub mod BitLaws
pub mod BelowLaws
pub mod CountLaws
pub mod ListLaws
pub mod ZeroLaws
pub mod JoinLaws
