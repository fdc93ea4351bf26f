pub mod Listed
pub mod Stored
