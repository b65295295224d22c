pub mod Updates
pub mod Model
pub mod Promise
pub mod Chain
pub mod Stands
pub mod Rows
