-- Preprocessing of a bundle under all configurations. Read Plain, then Preprocessed; Headers is for
-- messages, `working` about the walk.
pub mod Headers
pub mod Plain
pub mod Preprocessed
pub mod working
