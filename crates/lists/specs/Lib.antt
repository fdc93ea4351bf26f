pub mod Counts
pub mod Tables
pub mod Lent
pub mod Changes
pub mod Formed
