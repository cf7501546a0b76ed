mod Examples
mod GreedyLaws
mod ReplyLaws
mod StatesLaws
mod WidthLaws
