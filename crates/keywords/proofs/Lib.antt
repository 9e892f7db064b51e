-- Laws of keywords, hash and places, and the places of RULES 11.6.
pub mod CutLaws
pub mod HashLaws
pub mod Bytewise
pub mod FoldLaws
pub mod PlaceLaws
pub mod Vectors
pub mod Cutting
pub mod Standing
