-- Most definitions that public clauses cite stand in hv_ctree, specs/types. `Compounds` says how a
-- table of structures and unions grows, `Members` where members stand, `Written` how large a type
-- is as it is written out. `working` is what private functions cite.
pub mod Compounds
pub mod Members
pub mod Written
pub mod working
