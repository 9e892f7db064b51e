-- What holds of the counts of hits.
pub mod OneOf
pub mod Log
pub mod History
pub mod TwentyOne
pub mod Stay
pub mod Few
pub mod Events
pub mod Sessions
