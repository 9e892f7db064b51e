-- Hosts to try: address and port pairs.
pub mod Pairs
pub mod Reading
pub mod Writing
pub mod Claims
