-- A list of four names, by computation; the names that are chosen are the longest beginning that fits; what the call
-- answers, in words; what it leaves of the output; and that its bytes read back as they were meant.
pub mod Cases
pub mod Chosen
pub mod Answers
pub mod Left
pub mod Written
