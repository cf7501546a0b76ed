pub mod ReplyLaws
pub mod TurnLaws
pub mod PlayLaws
pub mod PlayedLaws
