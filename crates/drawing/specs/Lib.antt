pub mod Faults
pub mod Refused
pub mod Calls
pub mod Following
pub mod Followed
pub mod Shown
pub mod Output
