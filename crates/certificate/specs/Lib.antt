pub mod CertificateParts
pub mod Evidence
pub mod Certificate
pub mod Gathering
pub mod ListedSets
pub mod Listing
