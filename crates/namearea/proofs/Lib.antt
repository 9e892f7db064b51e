-- Laws of the definitions, by which loops over pairs go.
pub mod SpanLaws
pub mod GoodLaws
pub mod PlaceLaws
pub mod Words
