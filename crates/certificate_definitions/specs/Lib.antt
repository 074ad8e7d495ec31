-- docs/definitions.md names each definition, in the order in which a reader needs them.
pub mod Evidence
pub mod Certificates
pub mod CertificateRefusals
pub mod CertificateExamples
pub mod ExchangeExamples
pub mod Parts
pub mod CertificateText
pub mod CertificateMachine
pub mod CertificateLines
pub mod CertificateNames
pub mod CertificateChecking
pub mod CertificateTextExamples
