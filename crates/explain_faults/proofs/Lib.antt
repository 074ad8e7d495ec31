pub mod Candidates
pub mod FirstLines
pub mod ExpectedWords
pub mod WrongLemmas
