pub mod Reply
pub mod Configuration
pub mod Tables
pub mod TableSets
pub mod Flat
pub mod Last
