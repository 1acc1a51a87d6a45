pub mod Joint
pub mod Reader
pub mod Record
pub mod Layout
pub mod Writer
pub mod Private
