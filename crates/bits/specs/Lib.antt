pub mod Read
pub mod Text7
pub mod Val
