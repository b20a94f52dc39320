-- Lemmas of this crate.
mod Beginnings
mod Counting
mod Episodes
mod Evaluating
mod Excess
mod Facing
mod Lines
mod Naming
mod Numbers
mod Passing
mod Refusing
mod Slots
mod Sorting
mod Stepping
mod Walking
