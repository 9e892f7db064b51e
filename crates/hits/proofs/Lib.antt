-- Laws of results, of the reader's calls and of what is written, the statements in words, and cases by computation.
pub mod ResultLaws
pub mod NextLaws
pub mod HeadLaws
pub mod WriteLaws
pub mod NextCall
pub mod ReadsAll
pub mod HeadCall
pub mod WrittenRead
pub mod Vectors
