mod CallLaws
pub mod FreeLaws
pub mod SlotLaws
