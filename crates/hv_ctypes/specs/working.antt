-- What only private functions and proofs cite. Walks says how layouts and offsets are gathered.
pub mod Walks
