pub mod SumLaws
mod TextLaws
pub mod NoteLaws
