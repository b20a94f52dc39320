-- Lemmas on lists by their items, on splicing, and on what bytes mean.
pub mod BlocksLemmas
pub mod CellsLemmas
pub mod LawsLemmas
pub mod ListsLemmas
pub mod SplicedLemmas
pub mod ScalarsLemmas
pub mod ValuesLemmas
