pub mod Streams
pub mod Private
