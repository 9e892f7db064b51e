-- The tally over histories, and that each answer number has a count.
pub mod Rows
pub mod History
pub mod Vectors
