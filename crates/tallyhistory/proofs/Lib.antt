-- The tally over lists of calls: each count, and the sum of all.
pub mod Calls
pub mod Events
pub mod Vectors
