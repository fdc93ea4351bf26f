-- Tables of lists, and what adding to one of them leaves.
pub mod Tables
pub mod Added
pub mod Walks
-- The tables that lent rows stand for.
pub mod Cuts
pub mod Lent
pub mod Copies
-- Loops that add to a list.
pub mod Loops
pub mod Pairs
-- Witnesses.
pub mod Numbers
