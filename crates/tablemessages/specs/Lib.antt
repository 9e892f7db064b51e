-- The writer of table updates, and what reading its bytes gives.
pub mod Writer
pub mod Steps
pub mod RoundTrip
