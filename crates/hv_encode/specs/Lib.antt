-- The public clauses are stated by the definitions of hv_plain and hv_model. `working` is about the
-- steps of single functions.
pub mod working
