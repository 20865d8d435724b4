pub mod FoldLaws
pub mod LinearLaws
pub mod TableLaws
pub mod Values
