pub mod Sent
pub mod Spectral
pub mod InCrate
pub mod Returned
pub mod Private
