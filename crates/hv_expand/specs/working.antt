-- What is asked of a name, a run under the configurations that have made the same events, and the
-- steps of the code.
pub mod Questions
pub mod Going
pub mod Kept
pub mod Lone
pub mod Moves
pub mod Numbers
pub mod PlainSteps
pub mod Steps
