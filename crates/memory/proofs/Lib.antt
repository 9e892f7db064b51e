-- Laws by which the loops of this crate go.
pub mod SearchLaws
pub mod FilterLaws
pub mod NumberLaws
pub mod AskerLaws
pub mod OrderLaws
