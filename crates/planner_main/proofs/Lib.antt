pub mod ProgramWords
pub mod ProgramReported
pub mod CertificateReported
pub mod CertExplained
pub mod OrderRequest
pub mod ProgressReported
mod CountedFiles
mod HistoryWalks
mod SizeReported
