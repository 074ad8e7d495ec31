pub mod Expected
pub mod Explained
pub mod Wrong
pub mod SameMistake
