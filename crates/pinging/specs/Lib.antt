-- Pings and pongs over plain values.
pub mod Filled
pub mod Sending
