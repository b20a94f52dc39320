pub mod Completeness
pub mod Reducing
pub mod Soundness
pub mod Truth
