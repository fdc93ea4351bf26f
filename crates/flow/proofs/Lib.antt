pub mod Walks
pub mod Refusing
pub mod Soundness
pub mod Loops
pub mod Successors
pub mod Entering
pub mod Facts
