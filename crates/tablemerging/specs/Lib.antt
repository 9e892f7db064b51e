-- The table to send a neighbour (RULES 23.4 to 23.10): its entries, the same in words, and one table merged after
-- another.
pub mod Merging
pub mod Lengths
pub mod Words
