-- What only private functions and proofs cite.
pub mod Printed
pub mod Phrases
