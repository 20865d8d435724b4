pub mod Call
pub mod Clean
pub mod Put
pub mod Tables
pub mod Token
