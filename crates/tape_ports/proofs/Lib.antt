pub mod Places
pub mod Reading
pub mod DueLaws
pub mod TextLaws
pub mod Words
