pub mod ConstantsLemmas
mod ConstantsRows
pub mod ReadsBack
mod Examples
pub mod Unique
