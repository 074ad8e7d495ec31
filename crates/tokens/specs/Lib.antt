pub mod Form
pub mod Shape
pub mod Cut
pub mod Lexeme
pub mod Word
pub mod Scanner
pub mod Reported
