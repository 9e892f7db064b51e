-- Route tables: updates and admission.
pub mod Patch
pub mod Tables
pub mod Marks
pub mod Updates
pub mod Admission
pub mod History
pub mod Answers
