-- Lemmas on the words of a call, and rows.
mod FoldersLemmas
mod Rows
mod ValuesLemmas
