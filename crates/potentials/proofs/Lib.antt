pub mod ListLemmas
pub mod GroundLemmas
pub mod LossLemmas
pub mod GoalLemmas
mod ScoreLemmas
pub mod FairLemmas
pub mod WordLemmas
