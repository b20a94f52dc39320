pub mod BytesLemmas
pub mod CondLemmas
pub mod ConfigLemmas
pub mod Completeness
pub mod Known
pub mod Limits
pub mod NameLemmas
pub mod OneReading
pub mod ReadModel
pub mod ReadRule
mod Rows
pub mod Soundness
pub mod StepLemmas
pub mod TokenLemmas
