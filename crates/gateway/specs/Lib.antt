pub mod Demand
pub mod Losses
pub mod Run
pub mod Script
pub mod Source
