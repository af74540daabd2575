mod Walks
pub mod PerformingLaws
pub mod StoreLaws
pub mod ReadLaws
pub mod AnswerLaws
pub mod TextLaws
pub mod RequestLaws
pub mod WriteLaws
