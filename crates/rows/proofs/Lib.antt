pub mod Words
pub mod Members
pub mod Boxes
pub mod Values
pub mod Denied
