pub mod FilesLemmas
pub mod SinkLemmas
