pub mod BlockLaws
pub mod CopyLaws
pub mod Text7Laws
pub mod WordLaws
pub mod WriteLaws
