-- What controlling expressions are worth is defined in `hv_plain/specs/controlling`: the exported
-- clause cites nothing of this crate. `working` is about the machine that reads them.
pub mod working
