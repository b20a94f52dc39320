-- Preprocessing tokens and streams. Read Splices, Lexical and Cutting for how a file is cut;
-- Spelled for what of a token a macro's expansion looks at; Macro and MacroState for macros; Stream
-- for what a configuration keeps. Laws is for proofs above.
pub mod Constants
pub mod Cutting
pub mod Division
pub mod Laws
pub mod Lexical
pub mod Macro
pub mod MacroState
pub mod Spelled
pub mod Splices
pub mod Stream
