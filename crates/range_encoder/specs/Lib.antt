pub mod Encoder
pub mod Finish
pub mod Interval
pub mod Runs
pub mod Digits
pub mod Theory
pub mod Private
