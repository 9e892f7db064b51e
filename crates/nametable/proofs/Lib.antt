-- Laws of the definitions, by which loops over keywords and names go; the definitions in words; and vectors.
pub mod MarkLaws
pub mod TableLaws
pub mod Words
pub mod Answers
pub mod Vectors
