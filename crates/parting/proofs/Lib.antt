-- Texts parted into keywords, proved.
pub mod Runs
pub mod Taken
pub mod Keywordless
pub mod Found
pub mod Vectors
