-- The tally over lists of calls.
pub mod Calls
pub mod Events
