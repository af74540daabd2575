pub mod AddressLaws
pub mod DrawLaws
pub mod ImageLaws
pub mod SizeLaws
pub mod TapeLaws
pub mod WordLaws
