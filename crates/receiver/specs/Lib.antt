pub mod Join
pub mod New
pub mod Push
pub mod Stored
pub mod Tally
