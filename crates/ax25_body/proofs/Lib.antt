pub mod BodyLaws
pub mod CodeLaws
pub mod PieceLaws
pub mod ThirdLaws
