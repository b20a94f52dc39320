-- What the steps of the code keep. Read Shared (lists that are shared), Drafts (texts that are
-- made), Steps (arguments, answers).
pub mod Drafts
pub mod Shared
pub mod Steps
