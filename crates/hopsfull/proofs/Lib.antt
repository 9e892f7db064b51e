-- What holds of 12.
pub mod PutBack
pub mod NoQuery
pub mod Hits
pub mod Sessions
