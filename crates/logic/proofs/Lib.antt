-- Tests, lists and outcomes.
pub mod Flags
pub mod Members
pub mod Thens
-- What rows show.
pub mod Boxes
pub mod Shown
pub mod Covering
-- Each operator: what makes a row be there, and where a row came from.
pub mod Pairing
pub mod Naming
pub mod Denial
pub mod Denying
pub mod Through
pub mod Stepping
pub mod Branching
pub mod Forming
pub mod Quantifying
pub mod Settling
-- Sets of trees.
pub mod TreeSets
pub mod SameNotes
pub mod ForestTrees
pub mod Grounded
pub mod Splitting
-- Rows that are right for a formula, and the three parts: coverage, fillings and accounts.
pub mod Right
pub mod Deciding
pub mod Walking
pub mod SomePath
pub mod AllPaths
pub mod Coverage
pub mod Pacing
pub mod Fillings
pub mod Matching
-- Whole checks.
pub mod Sound
pub mod SoundLists
pub mod Growing
pub mod Exact
pub mod Extending
pub mod Ready
pub mod Lines
pub mod Reaching
pub mod Marking
pub mod Whole
pub mod Theorem
-- Outcomes and trials.
pub mod Growth
pub mod Rounding
pub mod Computing
pub mod Ending
pub mod Passing
