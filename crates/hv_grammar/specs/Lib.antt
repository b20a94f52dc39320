-- The grammar of the profile. Read Symbols, Expressions, Elements, Programs, then Scopes, Refusal
-- and Grammar; Tokens says which tokens a tree has.
pub mod Symbols
pub mod Expressions
pub mod Elements
pub mod Programs
pub mod Scopes
pub mod Refusal
pub mod Grammar
pub mod Tokens
pub mod Laws
pub mod machine
