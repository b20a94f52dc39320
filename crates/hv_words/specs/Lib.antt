-- What the words of a call mean. Read Descriptions (what is told of each command), Folders, then
-- Commands.
pub mod Descriptions
pub mod Folders
pub mod Commands
pub mod working
