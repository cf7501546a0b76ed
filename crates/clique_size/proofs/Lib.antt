pub mod MostLaws
mod CodeLaws
mod Examples
