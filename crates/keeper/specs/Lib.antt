-- A station that one value keeps.
pub mod Kept
