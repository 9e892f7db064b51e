-- The tally: what counting an answer makes of the counts, and what a list of answers makes of them.
pub mod Counts
pub mod History
