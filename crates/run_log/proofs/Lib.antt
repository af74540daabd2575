pub mod CutLaws
pub mod OneListLaws
pub mod SliceLaws
pub mod SlicesLaws
pub mod WholeLaws
