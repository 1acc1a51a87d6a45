pub mod Number
pub mod Agreement
pub mod Place
