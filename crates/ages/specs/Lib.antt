-- How old a remembered query is: looked up, handed up, and over lists of calls.
pub mod LookUp
pub mod HandedUp
pub mod History
pub mod Sessions
