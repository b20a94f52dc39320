-- What only private functions and proofs cite.
pub mod Given
pub mod States
