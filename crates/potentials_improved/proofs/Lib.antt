pub mod EstimateLemmas
mod ClimbLemmas
mod FairAtLemmas
mod FromZeroLemmas
mod TestedLemmas
