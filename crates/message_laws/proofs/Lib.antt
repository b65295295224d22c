pub mod Lowest
pub mod Backs
pub mod Trips
pub mod Updates
pub mod Naming
