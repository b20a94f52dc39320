-- The expansion of macros in one configuration (6.10.3). Read Tokens (tokens that hide names),
-- Bodies (what a macro's replacement list consists of), Substitution (what stands for each part of
-- it, `#` and `##`), Invocation (the arguments), Expansion (rescanning, one event after another),
-- then Episode (the expansion that begins at a token of a source, or of a controlling line). Laws
-- says what the events of an episode decide.
pub mod Alike
pub mod Bodies
pub mod Episode
pub mod Expansion
pub mod Invocation
pub mod Laws
pub mod Substitution
pub mod Tokens
