-- What the outside is to contracts. Read Count (how a fault is counted), then Files, Source and
-- Sink (what each trait promises), then Schedule and Memory (which calls of the types in memory
-- fail).
pub mod Count
pub mod Files
pub mod Memory
pub mod Schedule
pub mod Sink
pub mod Source
