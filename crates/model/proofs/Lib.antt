pub mod Equality
pub mod Telling
pub mod Ordering
pub mod Capacity
pub mod Promises
pub mod Lifting
pub mod Chains
pub mod Rows
