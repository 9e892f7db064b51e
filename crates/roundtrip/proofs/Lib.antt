-- The round trip through the station, and a session by computation.
pub mod Feeding
pub mod InTurn
pub mod RoundTrip
pub mod Session
