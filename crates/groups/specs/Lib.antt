-- A group of lines: its end, its lines and the first of them.
pub mod Lines
pub mod Start
pub mod Claims
pub mod Words
