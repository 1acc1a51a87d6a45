pub mod Firsts
pub mod Escapes
pub mod Lookups
pub mod Magnitudes
pub mod Evened
