pub mod Bits
pub mod Digits
pub mod Pick
pub mod Text
pub mod Wrote
