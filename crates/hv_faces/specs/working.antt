-- What the loop over faces has found when it ends.
pub mod Gathered
