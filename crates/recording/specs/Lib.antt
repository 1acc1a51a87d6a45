pub mod Tagged
pub mod Contents
pub mod Walk
pub mod Stated
pub mod Writer
