mod AddedLemmas
mod BeginningLemmas
mod KeyLemmas
mod OverriddenLemmas
mod PartLemmas
mod SplitLemmas
mod TableLemmas
