pub mod PlanWords
pub mod ReadSoFar
pub mod PlanSteps
pub mod WritingLemmas
