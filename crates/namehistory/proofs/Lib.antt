-- Lists of calls on an area of names.
pub mod Plain
pub mod Answers
pub mod Places
pub mod History
pub mod Finding
pub mod Vectors
pub mod Updates
