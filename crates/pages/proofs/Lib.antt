pub mod Adding
pub mod Runs
