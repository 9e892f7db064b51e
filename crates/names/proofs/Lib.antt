-- Laws of the definitions, by which the passes over the pairs and the walks along the chains go.
pub mod Cases
pub mod OrderLaws
pub mod KeyLaws
pub mod WalkLaws
pub mod ChainLaws
pub mod SearchLaws
