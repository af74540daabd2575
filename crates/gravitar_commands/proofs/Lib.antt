pub mod ReadingLaws
pub mod StageLaws
pub mod ReportLaws
pub mod PlainLaws
