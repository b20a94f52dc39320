-- The steps of the search.
pub mod Searches
pub mod Steps
