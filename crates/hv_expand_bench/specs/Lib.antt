-- Families of macros. Read Families.
pub mod Families
