-- Texts parted into keywords: what keywords are, and what that comes to through the station's calls.
pub mod Runs
pub mod Keywordless
pub mod Found
