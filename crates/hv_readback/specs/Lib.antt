-- Printed text is read back. Read Texts (what it means that a text is preprocessed to tokens, and
-- read as a program), Places (when two programs are the same up to places), then Laws.
pub mod Laws
pub mod Places
pub mod Texts
