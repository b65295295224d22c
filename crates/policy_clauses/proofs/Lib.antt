pub mod Recursions
pub mod Naming
pub mod Unplaced
