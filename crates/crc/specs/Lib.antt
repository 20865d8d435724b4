pub mod Crc
pub mod Fold
pub mod Rows
