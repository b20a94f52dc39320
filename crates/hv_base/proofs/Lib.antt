pub mod Booleans
pub mod BundlesLemmas
pub mod KeywordsLemmas
pub mod Lists
pub mod PunctsLemmas
pub mod SpellingsLemmas
