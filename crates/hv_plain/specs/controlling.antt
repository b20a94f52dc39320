-- Controlling expressions. Read Grammar, then Values, Constants and Symbols.
pub mod Constants
pub mod Grammar
pub mod Symbols
pub mod Values
