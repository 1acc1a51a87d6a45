pub mod Sent
pub mod Tns
pub mod Private
