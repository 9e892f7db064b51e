-- What the parts of an add and a remove promise one another.
pub mod Moves
pub mod Gaps
