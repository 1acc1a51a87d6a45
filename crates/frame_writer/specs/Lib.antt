pub mod Frame
pub mod Returned
pub mod Whose
pub mod Private
pub mod Taken
