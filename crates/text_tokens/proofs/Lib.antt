pub mod Plain
pub mod Scanning
pub mod Unplaced
