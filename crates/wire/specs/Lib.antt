-- Messages as bytes.
pub mod Header
