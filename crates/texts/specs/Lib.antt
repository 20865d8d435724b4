pub mod Hex
pub mod Number
pub mod Part
pub mod Show
pub mod Say
