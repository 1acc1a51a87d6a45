pub mod Decoder
pub mod Lent
pub mod Theory
pub mod Private
