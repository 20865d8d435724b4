pub mod LimitLaws
pub mod OutcomeLaws
