pub mod Coding
pub mod Private
