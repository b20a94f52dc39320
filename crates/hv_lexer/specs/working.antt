-- What only private functions and proofs speak of: what is left of a file at a position, and
-- lengths.
pub mod Cursors
pub mod Lengths
pub mod Prefixes
