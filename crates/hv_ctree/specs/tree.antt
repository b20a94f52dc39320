-- The plain tree that definitions speak of, without pointers, and the plain tree of a tree. Lists
-- grow at their end. Read Expressions, then Statements; Erase and EraseStatements say what they are
-- of the trees that the code has.
pub mod Expressions
pub mod Statements
pub mod Erase
pub mod EraseStatements
