mod WordLaws
mod IssueLaws
