pub mod Edges
pub mod FittingLaws
pub mod PreviewLaws
