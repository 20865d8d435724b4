pub mod Keep
pub mod Told
