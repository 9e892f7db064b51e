-- Laws of texts, lines and messages, and cases by computation.
pub mod TextLaws
pub mod LineLaws
pub mod MessageLaws
pub mod Vectors
