pub mod Frame
pub mod Returned
pub mod Refusals
pub mod Spare
pub mod Stated
pub mod Depends
pub mod Private
