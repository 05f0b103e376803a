-- The laws of numbers in digits.
pub mod DigitsLimits
pub mod DigitsValues
pub mod DigitsPairs
pub mod DigitsRefused
pub mod RemainingReading
pub mod RemainingWriting
pub mod DecimalAgain
pub mod OctalAgain
pub mod Answered
