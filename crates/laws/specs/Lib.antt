-- Definitions on lists and numbers that contracts of several crates cite.
pub mod Tests
pub mod Bytes
pub mod Parts
pub mod Ring
pub mod Numbers
pub mod Text
