-- Made tables through the writer and the calls of the station that reads them (RULES 23.9, 23.10).
pub mod Settled
pub mod Hops
