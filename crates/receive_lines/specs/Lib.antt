pub mod Line
pub mod Loss
