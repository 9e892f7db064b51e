-- The lines behind a group's first.
pub mod Fields
pub mod Step
pub mod Words
