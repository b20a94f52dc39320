-- Lemmas, each file named after the definitions that it is about.
pub mod DefinitionsLemmas
pub mod HeadersLemmas
pub mod LinesLemmas
pub mod NamesLemmas
pub mod SlicesLemmas
