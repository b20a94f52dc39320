pub mod Answering
pub mod Deeds
pub mod LoneEpisodes
pub mod Numbering
pub mod PlainRuns
pub mod Running
pub mod Settling
pub mod Turns
