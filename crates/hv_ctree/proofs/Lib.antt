-- Lemmas on what plain trees and types are of declared ones, for the proofs of the crates above.
pub mod EraseLemmas
pub mod EraseStatementLemmas
pub mod TypesErasureLemmas
