pub mod FlagLaws
pub mod FrameLaws
pub mod PartLaws
