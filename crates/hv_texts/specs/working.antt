-- What only private functions and proofs cite.
pub mod Names
pub mod Sorting
pub mod Steps
