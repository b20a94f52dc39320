pub mod CharactersLemmas
pub mod CutOffs
mod Examples
pub mod FloatingLemmas
pub mod Images
pub mod ListsReadBack
pub mod PrintedBytes
pub mod ReadBack
pub mod Sequences
pub mod StringKinds
pub mod WholeTokens
