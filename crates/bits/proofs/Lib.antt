pub mod ReadLaws
pub mod TakenLaws
pub mod Text7Laws
pub mod ValLaws
pub mod WordLaws
