pub mod FamilyLemmas
pub mod OutcomeLemmas
