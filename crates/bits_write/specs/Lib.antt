pub mod Text7
pub mod Write
