-- Held bytes and bytes that are brought now.
pub mod Joining
