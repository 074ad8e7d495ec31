-- Read in this order: exchanges and images, symmetries, orbits, what listings closed up to symmetries show, and examples.
pub mod Exchanges
pub mod NamedObjects
pub mod SameFormula
pub mod Symmetries
pub mod Orbits
pub mod Laws
pub mod SymmetryExamples
