-- Preprocessing in one configuration (6.10), from the files of a bundle to tokens of C. Read
-- Plainpp (what it comes to), then Preprocessing (files, and what directives do), Lines (text lines
-- and directives), Directives (which one a line is), Definitions (`#define`), Files (which file a
-- header is), Groups (`#if` to `#endif`), Expressions (their truth), Text (the episodes of a text),
-- Reading (how parts are read one behind another), CTokens (what identifies a token, and tokens of
-- C). Laws says what is proved of them.
pub mod CTokens
pub mod Definitions
pub mod Directives
pub mod Expressions
pub mod Files
pub mod Groups
pub mod Laws
pub mod Lines
pub mod Plainpp
pub mod Preprocessing
pub mod Reading
pub mod Text
