-- One preprocessing token and the C token that it becomes. Read Floating, then Conversion (what a
-- preprocessing token becomes), Joining (adjacent string literals), Spelling (how a C token is
-- printed), Tokens (which C tokens there are) and ReadBack (printed tokens are read back).
pub mod Conversion
pub mod Floating
pub mod Joining
pub mod ReadBack
pub mod Spelling
pub mod Tokens
pub mod working
