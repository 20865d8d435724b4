pub mod CountLaws
pub mod FullLaws
pub mod MaskLaws
pub mod SendLaws
pub mod SplitLaws
