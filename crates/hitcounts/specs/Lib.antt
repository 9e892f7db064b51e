-- How many hits of one query are passed back or delivered: over lists of calls, and call by call.
pub mod History
pub mod TwentyOne
pub mod Stay
pub mod Few
pub mod Events
pub mod Sessions
