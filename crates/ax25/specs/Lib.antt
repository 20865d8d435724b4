pub mod Codes
pub mod Decode
pub mod Encode
pub mod Plain
