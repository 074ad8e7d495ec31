pub mod CheckedLemmas
mod CompleteLemmas
mod ExplanationLemmas
mod FurtherLemmas
pub mod FilesRead
mod ShortLines
pub mod NamedExchanges
