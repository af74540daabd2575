pub mod TickLaws
pub mod ExtendedLaws
pub mod RecordLaws
