pub mod Pass
pub mod Read
