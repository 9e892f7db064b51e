-- Tables in the parts of one area, and entries lowered by those of a table.
pub mod Lowering
pub mod Parts
