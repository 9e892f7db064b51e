-- The laws of pings and pongs.
pub mod SendLaws
pub mod Theorems
pub mod Vectors
