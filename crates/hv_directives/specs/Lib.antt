-- What the values of the code stand for: each is one of the definitions of `hv_plainpp`, which say
-- what a line means. `working` is about private functions.
pub mod Values
pub mod working
