-- Hits that a station writes from its own names (RULES 25): the call, and the same in words.
pub mod Writing
pub mod Words
pub mod Told
