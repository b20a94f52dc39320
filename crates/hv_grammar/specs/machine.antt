-- The parsing machine: Parts and Frames, with their tables, then Steps.
pub mod Parts
pub mod Frames
pub mod Steps
pub mod Control
pub mod Answers
pub mod Moves
