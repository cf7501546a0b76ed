mod ToldLaws
mod Examples
