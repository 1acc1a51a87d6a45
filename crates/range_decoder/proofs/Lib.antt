pub mod Shares
pub mod Owners
pub mod Searches
pub mod Renormal
pub mod Appends
pub mod Answers
pub mod Unique
pub mod Beside
