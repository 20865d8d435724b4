pub mod Back
pub mod Codec
pub mod Generic
pub mod Told
