-- What the steps of the walk through a bundle promise. Read Walk, then Parts and OpenGroups. Keys
-- says in which order places are reached.
pub mod Coming
pub mod Faults
pub mod Firsts
pub mod Keys
pub mod Leasts
pub mod OpenGroups
pub mod Openings
pub mod Pages
pub mod Parts
pub mod Sources
pub mod Taking
pub mod Walk
pub mod Wholes
