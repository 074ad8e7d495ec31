pub mod ValueLemmas
pub mod FairnessLemmas
pub mod AmongLemmas
pub mod MakerLemmas
pub mod ChargeLemmas
pub mod CutLemmas
pub mod Kept
