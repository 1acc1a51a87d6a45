pub mod Tails
pub mod Fields
pub mod Rooms
pub mod Answers
pub mod Unique
pub mod Steps
pub mod Roomy
pub mod Readers
