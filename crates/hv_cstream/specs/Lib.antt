-- Tokens of C under all configurations. Read Streams. `working` is about what is converted and
-- joined so far.
pub mod Streams
pub mod working
