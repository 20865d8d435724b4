pub mod JoinLaws
pub mod PushLaws
pub mod TallyLaws
