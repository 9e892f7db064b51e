-- Laws of 4-bit data that is unpacked to 8-bit numbers, and of the fields of an update.
pub mod UnpackLaws
pub mod FieldLaws
