-- The expansion of macros under all configurations. An episode of one configuration is defined in
-- `episode` of hv_plain, and classes of one face in Faces of hv_faces, which come first. Then read
-- Outcomes, and Plain for the plain function beside it. `working` is about the events of one run.
pub mod Outcomes
pub mod Plain
pub mod working
