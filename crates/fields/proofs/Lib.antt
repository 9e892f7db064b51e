-- Laws of the definitions, by which the functions' loops go, and the definitions in words.
pub mod FieldLaws
pub mod Words
