-- Laws of the kept keywords, and what is proved of which names match.
pub mod OrderLaws
pub mod KeptLaws
pub mod MatchLaws
pub mod Words
pub mod Vectors
pub mod QuickLaws
