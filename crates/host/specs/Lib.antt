pub mod Given
pub mod Many
pub mod Private
pub mod Told
