-- What this crate adds to the pure machine of hv_grammar: Control says which control a state of the
-- machine has. `working` is the control's own machine, which no exported clause cites.
pub mod Control
pub mod working
