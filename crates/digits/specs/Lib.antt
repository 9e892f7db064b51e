-- Numbers in decimal.
pub mod Decimal
