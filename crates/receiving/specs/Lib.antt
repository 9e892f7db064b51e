-- Bytes as a line brings them: the call, lists of calls, and what holds of them.
pub mod Feeding
pub mod Events
pub mod Bare
pub mod Calls
pub mod Cutting
pub mod Frames
pub mod Driven
pub mod Demand3
pub mod Periods
pub mod Demand2
pub mod Exactly
pub mod Sessions
