pub mod ListingText
