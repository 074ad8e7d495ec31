pub mod Endless
pub mod Failing
pub mod Pieces
pub mod Table
