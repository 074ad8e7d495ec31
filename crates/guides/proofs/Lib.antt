pub mod TestedLemmas
pub mod ShownLemmas
pub mod AskedLemmas
pub mod GuideLemmas
