-- Before the operators.
pub mod Marking
pub mod Labels
-- The operators.
pub mod States
pub mod NamedRows
pub mod LabelRows
pub mod Stepped
