-- Trees and tokens as text. Read Shown, then ProgramTokens, which goes on from hv_grammar's Tokens,
-- then Laws. `working` is about the printer's own steps.
pub mod Shown
pub mod ProgramTokens
pub mod Laws
pub mod working
