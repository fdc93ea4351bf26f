pub mod Truth
pub mod Consequences
pub mod Spans
pub mod FragmentBoxes
pub mod NameWalk
