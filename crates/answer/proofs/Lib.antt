-- The numbers of the refusals tell them apart, and none of them is 0.
pub mod Apart
pub mod NotZero
