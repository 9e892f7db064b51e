-- Route tables read: how 4-bit data is unpacked, and what an update comes to. The rules are those of crate tables.
pub mod Unpacking
pub mod Outcomes
pub mod Patches
pub mod Payloads
