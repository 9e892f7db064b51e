-- Bytes as text.
pub mod Text
pub mod Words
