pub mod Bytes
pub mod Places
pub mod Answers
pub mod Back
pub mod Copies
