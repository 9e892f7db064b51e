-- Laws of the call, one for each way out; what it answers, what it leaves and each entry, in words; and a station with
-- two tables, by computation.
pub mod MakeLaws
pub mod Answers
pub mod Entries
pub mod Vectors
