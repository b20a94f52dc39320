-- What the program promises. Read Ends (how a call ends, status by status, and the headline), then
-- Due (which answer is due), Files (the files of a command), Definitions (the text of `options`),
-- Positions (where a refusal is), Answer (its status, output and message), Given (how it is given).
-- `working` is about the steps of single functions.
pub mod Answer
pub mod Definitions
pub mod Due
pub mod Ends
pub mod Files
pub mod Given
pub mod Positions
pub mod working
