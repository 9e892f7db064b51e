-- Laws and vectors of the session's text.
pub mod Vectors
pub mod Putting
pub mod Reading
pub mod Listing
pub mod Acting
pub mod Writing
pub mod Logged
pub mod Claims
