-- Lemmas of this crate.
mod KeysLemmas
mod Putting
