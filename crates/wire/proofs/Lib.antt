-- The laws of numbers and headers, and cases by computation.
pub mod NumberLaws
pub mod HeaderLaws
pub mod Vectors
