pub mod BackLaws
pub mod HexLaws
pub mod NumberLaws
pub mod PartLaws
pub mod SayLaws
pub mod ShowLaws
