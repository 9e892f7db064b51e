-- Query hits (RULES 25): results as bytes, a payload read and written, and what is proved of both.
pub mod Results
pub mod Reading
pub mod Writing
pub mod Words
