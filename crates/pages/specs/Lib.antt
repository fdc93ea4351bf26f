pub mod Limit
pub mod Pages
pub mod Spaced
pub mod Records
