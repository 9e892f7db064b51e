-- Names that have every keyword of a text (RULES 25.7).
pub mod Matching
pub mod Words
pub mod Order
pub mod Kept
pub mod Quick
