mod DefinitionsLemmas
pub mod DueLemmas
pub mod EndsLemmas
pub mod Finding
mod Messages
mod PositionsLemmas
mod Rows
pub mod UnusableLemmas
pub mod Writing
