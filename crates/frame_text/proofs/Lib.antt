pub mod Decimals
pub mod Hand
pub mod Laid
pub mod Lists
pub mod Replies
pub mod Texts
pub mod Whole
