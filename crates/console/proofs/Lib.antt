mod JudgeLaws
mod LineLaws
mod SessionLaws
mod TurnLaws
