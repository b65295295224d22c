pub mod Recursions
pub mod Exactness
pub mod Unplaced
