pub mod Answers
pub mod Theorems
pub mod Unique
pub mod Words
pub mod Fields
pub mod Found
