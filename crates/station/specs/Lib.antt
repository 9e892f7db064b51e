-- How the calls are put together.
pub mod Actions
pub mod Calls
pub mod Feeding
