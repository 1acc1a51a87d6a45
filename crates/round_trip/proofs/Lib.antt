pub mod Bearing
pub mod Trip
pub mod Spared
pub mod Damage
pub mod Again
pub mod InCrate
pub mod Theorems
