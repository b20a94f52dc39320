-- What private functions do; no exported clause cites these. Read Steps and Machine for how a rule
-- is read in one pass (Said, Parsed and Known connect them with the code), Codes for rules as plain
-- data, Conds for diagrams, ModelLine and Pieces for the parts of a text.
pub mod Codes
pub mod Conds
pub mod Known
pub mod Machine
pub mod ModelLine
pub mod Parsed
pub mod Pieces
pub mod Said
pub mod Steps
