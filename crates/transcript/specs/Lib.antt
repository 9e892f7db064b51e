-- Event files, the rows that a session writes, and its whole text.
pub mod Files
pub mod Kinds
pub mod Rows
pub mod Text
pub mod Claims
