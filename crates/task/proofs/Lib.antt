pub mod Lists
pub mod Tables
pub mod AtomEquality
pub mod Shapes
