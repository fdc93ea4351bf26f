pub mod Steps
pub mod Progress
pub mod Ends
pub mod Whole
pub mod Bounds
