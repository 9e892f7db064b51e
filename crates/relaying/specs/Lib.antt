-- The call that makes the table to send a neighbour (RULES 23), and the same in words.
pub mod Calls
pub mod Words
