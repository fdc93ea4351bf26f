-- What a line means.
pub mod Valuations
pub mod Formulas
pub mod Paths
pub mod Satisfied
pub mod Trees
pub mod Accounts
pub mod Faithful
-- How its rows are worked out.
pub mod Shortages
pub mod Outcomes
pub mod Adding
pub mod Operators
pub mod Witnessing
pub mod Rounds
pub mod Reached
pub mod Working
-- What is proved of it.
pub mod Promises
-- Examples.
pub mod Trials
