-- Results laid one behind another.
pub mod Filling
