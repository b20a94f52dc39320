-- What gathering answers. The bundle that it finds is defined in `gathering` of hv_plain, which
-- comes first. Then read Limits (which file of a bundle is too big), then Causes (each answer and
-- its cause). `working` is about the steps of the search.
pub mod Causes
pub mod Limits
pub mod Plain
pub mod working
