-- Lemmas on walks over parameters and members, on the layouts that a table of types keeps, and the
-- laws of compatibility, composite types, layouts and offsets.
pub mod ParameterLemmas
pub mod LayoutsLemmas
pub mod CompatibleLaws
pub mod CompositeLaws
pub mod LayoutLaws
pub mod DepthLemmas
pub mod SettledLemmas
pub mod OffsetsLemmas
pub mod ApartLaw
