pub mod Held
pub mod Loans
pub mod Locals
