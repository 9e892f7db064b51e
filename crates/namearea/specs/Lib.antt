-- The station's own names in a lent area (RULES 22): the layout, when it is good, and what the calls on it give.
pub mod Area
pub mod Good
pub mod Calls
pub mod Words
