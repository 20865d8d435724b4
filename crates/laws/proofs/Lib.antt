pub mod BitLaws
pub mod ByteLaws
pub mod Cases
pub mod DigitLaws
pub mod ListLaws
pub mod TextLaws
pub mod TrimLaws
pub mod WroteLaws
