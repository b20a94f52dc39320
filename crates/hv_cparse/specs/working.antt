-- The tables of elements and of the frames, then Steps; Seen says what the control shows of the
-- pure machine, Counts which operators it counts, Given what is answered to tokens.
pub mod Parts
pub mod Tables
pub mod Steps
pub mod Seen
pub mod Counts
pub mod Given
