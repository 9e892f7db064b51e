-- Laws of updates and of withholding, of one table and of histories, and cases by computation.
pub mod TestLaws
pub mod PatchFacts
pub mod NumberLaws
pub mod TurnLaws
pub mod UpdateLaws
pub mod AnswerLaws
pub mod OrderLaws
pub mod MarkLaws
pub mod KeepLaws
pub mod BoundLaws
pub mod AdmissionLaws
pub mod HistoryLaws
pub mod Answers
pub mod Vectors
pub mod AnswerBounds
