-- What holds of ages.
pub mod Found
pub mod LookUp
pub mod Told
pub mod Behind
pub mod HandedUp
pub mod Positions
pub mod History
pub mod Sessions
