-- The table of the station's own names (RULES 22.11).
pub mod Table
pub mod Words
