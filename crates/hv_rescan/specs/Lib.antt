-- Which states of macro expansion the values of the code stand for. Read Values (tokens, texts and
-- states), then Pending (what pends in a state). The states are those of
-- `hv_plain.specs.episode.Expansion`.
pub mod Pending
pub mod Values
pub mod working
