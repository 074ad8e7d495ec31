-- docs/definitions.md names each definition, in the order in which a reader needs them: potential functions, then tables, then landmarks.
pub mod PotentialFunctions
pub mod FairPotentials
pub mod Settled
pub mod PotentialLaws
pub mod PotentialExamples
pub mod TableFunctions
pub mod FairTables
pub mod TableLaws
pub mod TableExamples
pub mod LandmarkFunctions
pub mod FairLandmarks
pub mod LandmarkLaws
pub mod LandmarkExamples
pub mod LandmarkLines
