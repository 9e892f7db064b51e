-- Laws of the definitions, vectors, and what is proved of them.
pub mod GroupLaws
pub mod Vectors
pub mod Order
pub mod Behind
pub mod Busy
pub mod Asking
pub mod HostsBehind
pub mod HostVectors
pub mod ReadGroups
