-- What the contracts of this crate cite.
pub mod Queries
pub mod Order
