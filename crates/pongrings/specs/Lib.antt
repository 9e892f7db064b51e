-- The rings of stored pongs as the code reads them.
pub mod Ring
