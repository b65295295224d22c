pub mod Runs
pub mod Counts
pub mod Saying
pub mod Agreeing
pub mod Keeping
pub mod Holding
pub mod Promising
pub mod Bytes
