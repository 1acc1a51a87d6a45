pub mod Sends
pub mod Puts
pub mod Counts
pub mod Stands
pub mod Left
pub mod Standing
pub mod Tracing
