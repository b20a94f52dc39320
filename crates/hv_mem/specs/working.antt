-- What only private functions and proofs cite. Read Cells (how a block's bytes are kept), then
-- Spots (where an access takes place) and Reading (how numbers are read).
pub mod Cells
pub mod Spots
pub mod Reading
