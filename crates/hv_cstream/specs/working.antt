-- What only private functions and proofs cite.
pub mod Converting
pub mod Joining
