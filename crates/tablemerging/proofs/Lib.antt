-- Places of tables of two lengths, one table merged after another, the entries of a made table in words, and made
-- tables of a few entries.
pub mod Lengths
pub mod MergeLaws
pub mod Words
pub mod Vectors
