pub mod LastLaws
pub mod SampleLaws
mod SmallLaws
