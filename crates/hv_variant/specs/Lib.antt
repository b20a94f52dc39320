-- What the variant of a configuration is.
pub mod Variants
pub mod working
