pub mod Names
pub mod VariableNames
pub mod TaskParts
pub mod Task
pub mod NumberedNames
