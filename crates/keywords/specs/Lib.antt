-- Keywords of a text, and the place of a keyword in a table.
pub mod Keywords
pub mod Hash
pub mod Folding
pub mod Cutting
pub mod Blocks
