pub mod Address
pub mod Classify
pub mod Digis
pub mod Kind
pub mod Parse
pub mod Record
pub mod Types
