pub mod Sent
pub mod Residual
pub mod Sums
pub mod Private
