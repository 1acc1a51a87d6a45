pub mod Coded
pub mod Patterns
