pub mod BodyBack
pub mod CallLaws
pub mod Examples
pub mod FieldLaws
mod HeightLaws
pub mod PartLaws
pub mod PlaceBack
pub mod PlaceLaws
mod PlacedLaws
mod RunLaws
mod SelfLaws
pub mod Sizes
mod Steps
pub mod TextBack
pub mod TextLaws
pub mod ValueLaws
pub mod WordLaws
