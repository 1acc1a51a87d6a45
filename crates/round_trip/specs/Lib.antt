pub mod RoundTrip
pub mod InCrate
pub mod Private
