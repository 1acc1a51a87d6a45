pub mod Single
pub mod Quantiser
pub mod Gain
pub mod Estimate
pub mod Private
