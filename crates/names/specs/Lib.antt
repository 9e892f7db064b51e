-- Names by their numbers, and by their buckets: the number that a name's bytes give, and the chains of places with one
-- bucket each.
pub mod Order
pub mod Chains
