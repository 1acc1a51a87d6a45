pub mod Tail
pub mod Reads
pub mod Steps
pub mod Reader
pub mod Private
