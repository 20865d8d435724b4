pub mod BodyLaws
pub mod HeadLaws
pub mod ReaderLaws
