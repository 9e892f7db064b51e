-- Laws of the definitions, by which the functions' loops go, and the definitions in words.
pub mod Tests
pub mod Letters
pub mod Library
pub mod TextLaws
pub mod Words
