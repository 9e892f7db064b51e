-- Made tables through the writer and the calls: they are taken and stand as made, and queries pass them.
pub mod Settled
pub mod Hops
pub mod Vectors
