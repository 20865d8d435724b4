pub mod FitLaws
pub mod LineLaws
pub mod PriceExamples
pub mod PriceLaws
