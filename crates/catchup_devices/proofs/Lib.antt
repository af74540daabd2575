pub mod CatchUpLaws
