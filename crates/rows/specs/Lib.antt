pub mod Forests
pub mod Rows
pub mod Witnesses
pub mod Denials
