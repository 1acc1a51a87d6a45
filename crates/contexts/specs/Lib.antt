pub mod First
pub mod Contexts
pub mod Lines
