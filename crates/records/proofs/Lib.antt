pub mod Fields
pub mod Stretches
pub mod Scans
pub mod Digits
pub mod Collected
