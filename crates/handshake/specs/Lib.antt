-- A group read, its fields and hosts asked for, and the groups that the station writes.
pub mod Group
pub mod Claims
pub mod Groups
pub mod Tried
pub mod Hosts
