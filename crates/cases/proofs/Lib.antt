-- Every case holds.
pub mod Cases
pub mod Precedence
