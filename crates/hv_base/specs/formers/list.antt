-- The container that this crate's list is.
pub mod List
