-- How long numbers are in decimal, and how their digits are found.
pub mod Sizes
pub mod Spelling
