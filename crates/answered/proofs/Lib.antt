-- Hits that a station has written, at the stations that they come to; three stations in a row, by computation.
pub mod Home
pub mod Sessions
