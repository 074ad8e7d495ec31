pub mod VerdictRuns
pub mod VerdictLaws
