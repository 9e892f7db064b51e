-- What the reading of rows promises.
pub mod Rows
