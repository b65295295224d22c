pub mod Spelling
pub mod Clauses
pub mod Whole
pub mod Fitting
