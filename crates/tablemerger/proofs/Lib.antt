-- Steps by which the loops go that merge one table into another, and those of the parts of an area one after another.
pub mod MergeSteps
pub mod IdleLaws
pub mod PartLaws
