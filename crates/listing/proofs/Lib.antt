pub mod AreaLaws
mod AskedLaws
mod FileLaws
mod FunctionLaws
mod LineLaws
mod StandingLaws
mod UnitLaws
