-- Hits that a station has written, at the stations that they come to (RULES 25.12).
pub mod Home
