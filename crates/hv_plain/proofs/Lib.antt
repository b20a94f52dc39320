pub mod ByteNumerals
mod ControllingRows
pub mod EpisodeFaces
mod EpisodeRows
pub mod EpisodeStates
pub mod OptionVariables
mod Rows
pub mod SmallAnswer
pub mod SmallCompleteness
pub mod SmallRun
pub mod SmallSoundness
