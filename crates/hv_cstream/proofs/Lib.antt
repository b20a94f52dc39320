-- Lemmas of this crate.
mod Endings
mod Starts
mod Converting
mod Literals
mod Joinings
mod Entries
