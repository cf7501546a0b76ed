mod VerdictLaws
mod StatesLaws
