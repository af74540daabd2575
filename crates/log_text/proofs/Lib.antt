mod LineLaws
pub mod LogLaws
mod NextLaws
pub mod PartLaws
mod SortLaws
