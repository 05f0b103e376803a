-- Numbers in decimal and octal digits.
pub mod Digits
pub mod Remaining
pub mod Decimal
pub mod Octal
pub mod Notations
