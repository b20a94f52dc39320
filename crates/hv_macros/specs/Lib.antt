-- Macros under all configurations. Read Alternatives, then Table: what a name means, what a table
-- keeps, and what a definition or a removal changes. Laws is for proofs above. `working` is about
-- the steps of setting a name.
pub mod Alternatives
pub mod Laws
pub mod Table
pub mod working
