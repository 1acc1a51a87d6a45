pub mod Codings
pub mod Keeps
pub mod Unique
