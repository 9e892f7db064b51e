-- Laws of the definitions, by which the functions' loops go, and the definitions in words.
pub mod LineLaws
pub mod Ends
pub mod FirstLine
pub mod Rows
pub mod Prefix
