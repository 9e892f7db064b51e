-- The laws of headers read off bytes in parts.
pub mod HeaderLaws
