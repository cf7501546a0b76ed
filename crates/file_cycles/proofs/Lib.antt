mod GreedyLaws
mod SearchLaws
