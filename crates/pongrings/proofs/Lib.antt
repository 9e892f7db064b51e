-- The laws of rings and of a walk over them.
pub mod RingLaws
pub mod WalkLaws
