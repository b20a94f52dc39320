-- What only private functions and proofs cite.
pub mod ParameterSet
pub mod Steps
