-- Texts of queries, the lines that a query goes to, and messages as they are sent.
pub mod Texts
pub mod Messages
pub mod Passing
